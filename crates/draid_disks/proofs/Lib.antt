pub mod Alike
mod Attached
mod Births
mod Checked
mod Comes
mod Goes
mod Going
mod Kept
mod LeafLogs
mod Left
mod Marked
mod Moving
mod Plain
pub mod Refused
mod Renewed
mod RenewedOne
mod Replanned
mod Reserved
mod Switching
mod Upgraded
