pub mod Covers
mod Limits
mod Walking
mod BelowLaws
mod Added
mod CutBelow
mod TailBelow
mod ReturnOrders
mod TailVerdicts
mod Finishing
mod OrderSets
mod NeverStopped
pub mod Reordering
mod KnownLaws
mod Leaving
pub mod Accessing
mod SameHeld
pub mod Alike
mod AlikeLaws
pub mod AlikeRuns
mod LeftAlike
mod Returning
