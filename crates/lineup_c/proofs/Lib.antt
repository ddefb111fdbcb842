mod Played
mod Strings
