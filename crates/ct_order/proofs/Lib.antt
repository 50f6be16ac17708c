mod Learning
mod Judging
mod Worded
mod Scanned
mod Files
mod Logs
mod Ending
