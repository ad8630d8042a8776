mod Checks
pub mod Making
pub mod SampleRun
mod Coded
mod Base
mod Count
mod Inv
mod Change
mod Bring
mod Swapping
mod Beginning
mod Turning
mod Clock
mod Starting
mod Faithful
mod Members
mod Firsts
mod Coding
mod Known
mod Joining
mod JoinSwap
mod JoinWrite
mod JoinBring
mod JoinTurn
mod JoinTick
mod ReadBack
mod Originals
mod Tallied
mod InTime
mod Booked
mod Valued
mod JoinRun
mod Regular
mod Totals
mod Weights
mod Housed
mod HousedBring
mod HousedTurns
mod HousedCalls
mod Wells
mod Rooms
mod Singles
pub mod Clocking
pub mod Laws
