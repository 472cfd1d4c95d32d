pub mod Disk
pub mod Story
pub mod StoryLaws
pub mod Memory
pub mod Sides
