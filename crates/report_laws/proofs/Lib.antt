-- The three demands on the library for every kind of report, the causes for which the writer refuses, that it takes what the reader gives, what a reading
-- depends on, what may have been seen where a number is read, the poor libraries that the demands shut out, worked examples, and that TAF and trend have
-- one body.
pub mod ByName
pub mod Listed
pub mod SurfaceCauses
pub mod AerodromeCauses
pub mod ObservedCauses
pub mod ForecastCauses
pub mod ReportCauses
pub mod Placed
pub mod Faults
pub mod Numbers
pub mod RoundTrip
pub mod Demands
pub mod Taken
pub mod SameGroups
pub mod Seen
pub mod PoorLibraries
pub mod Examples
pub mod StateExamples
pub mod EditionExamples
pub mod Section3Examples
pub mod CauseExamples
pub mod OneBody
