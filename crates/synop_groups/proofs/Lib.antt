-- Laws that the proofs of several readings use, and the round trip of every group.
pub mod Readings
pub mod RoundTripParts
pub mod RoundTripFields
pub mod RoundTripScales
pub mod RoundTripHead
pub mod RoundTripLayer
pub mod RoundTrip
pub mod MarkedRows
