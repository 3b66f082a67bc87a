-- The laws of the move of a report: in the order in which the code judges, and the two round trips.
pub mod Moving
pub mod RoundTrip
