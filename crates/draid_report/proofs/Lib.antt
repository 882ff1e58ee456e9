mod Enumerated
mod Floats
