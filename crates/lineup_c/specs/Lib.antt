pub mod Calls
pub mod Numbers
pub mod Rooms
pub mod Stack
