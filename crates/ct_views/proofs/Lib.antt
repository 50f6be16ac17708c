mod Stepping
mod Seen
mod Checks
mod Reports
mod Told
