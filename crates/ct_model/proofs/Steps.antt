-- Each step: its cause in closed form, and its outcome where it has none.
pub mod Rows
pub mod Shapes
pub mod Mail
pub mod RoundSteps
pub mod Rounds
pub mod Submit
pub mod Receive
pub mod Begin
pub mod Close
pub mod Deliver
pub mod Follow
pub mod Crash
pub mod LineSteps
