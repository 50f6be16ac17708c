pub mod Board
pub mod Known
pub mod Notes
pub mod Watched
pub mod Watching
