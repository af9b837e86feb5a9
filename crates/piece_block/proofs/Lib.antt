pub mod Bodies
pub mod CornerLaws
pub mod OneFault
pub mod PieceLaws
pub mod RoundTrip
pub mod Unique
pub mod VerdictLaws
pub mod Zero
