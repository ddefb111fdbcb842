pub mod Precedence
pub mod Linearizations
pub mod Configurations
pub mod Monitors
