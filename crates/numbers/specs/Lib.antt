pub mod FileRefusals
pub mod Reader
pub mod Answered
pub mod Number
pub mod Groups
-- What bytes can begin with, and that it is read exactly then.
pub mod Forms
pub mod NumberExactly
-- That every number has a form, and padded ones too.
pub mod Spelled
pub mod Padding
