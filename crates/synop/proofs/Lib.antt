-- How the reader goes through a text.
pub mod HeadSteps
pub mod TextSteps
