mod Members
mod Counted
mod Submitted
mod Settled
mod Stuck
