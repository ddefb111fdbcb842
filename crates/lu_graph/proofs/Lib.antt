pub mod Apart
pub mod Guarded
mod Critical
mod Sectioned
pub mod Aside
pub mod First
mod TakenTurns
pub mod StatesAlike
mod Closing
mod ForEver
mod StayAlive
mod Possible
mod Standings
mod Counted
mod Followed
mod Wholes
mod Listed
mod AlikeLaws
pub mod OtherSet
mod Among
mod Held
mod Recalled
mod Numbers
mod Grown
mod Added
mod Explored
mod Levels
mod Judged
mod Same
mod Sized
mod Stood
mod Many
mod Alike
mod Visiting
mod Waiting
mod Earlier
mod OneState
mod Searched
mod Searching
mod Spread
mod Hopeful
mod Charted
mod WayBack
mod Found
mod Put
mod Expanded
mod Ahead
mod Tabled
mod Ordered
