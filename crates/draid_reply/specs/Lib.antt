pub mod Agent
pub mod Reply
