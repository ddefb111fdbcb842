mod Joined
mod SerialRun
mod Stepping
