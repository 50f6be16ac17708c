-- The definitions, in the order in which to read them.

-- To believe: the state of a group, each step as a row, and what is safe in every state of a run.
pub mod Setting
pub mod Wire
pub mod AtValue
pub mod State
pub mod Received
pub mod When
pub mod Phases
pub mod Moves
pub mod Actor
pub mod Next
pub mod Run
pub mod Relayed
pub mod Safe
-- To believe for refusals: a record with its waiting lines, the tests of each step in their order, and the limits.
pub mod Waiting
pub mod Rehearsal
pub mod Stamps
pub mod Test
pub mod Faults
pub mod Cause
pub mod Lawful
pub mod Allowed
pub mod Passed
pub mod StepText
-- Devices of contracts and proofs: the same wires with numbers in place of values, wires that are counted one by one, who
-- sent what, and what holds in every run.
pub mod Mapped
pub mod Counted
pub mod Senders
pub mod Order
pub mod Knowledge
