pub mod Loaded
pub mod LoadsAlike
pub mod Files
pub mod TraceLoads
pub mod Loading
pub mod InPlace
pub mod Turning
pub mod Loop
