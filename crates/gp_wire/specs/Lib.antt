-- From a profile to its canonical bytes.
pub mod Varint
pub mod Field
pub mod Canonical
-- From bytes to a profile, or to the place and the cause of the first fault.
pub mod Cause
pub mod Front
pub mod Fields
pub mod Packed
pub mod Messages
pub mod Checks
pub mod Valid
pub mod Reading
-- What is written is read again.
pub mod RoundTrip
-- What is kept in between. No public contract rests on it.
pub mod kept
