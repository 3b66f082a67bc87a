-- How the reader goes through section 1.
pub mod SectionSteps
