-- How the section is read from group to group, and its round trip.
pub mod Going
pub mod Turns
pub mod Steps
pub mod Feet
pub mod Judging
pub mod LayersBack
pub mod Section3Back
