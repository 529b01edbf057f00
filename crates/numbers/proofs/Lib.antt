mod Groups
-- What bytes can begin with, and that it is read exactly then.
pub mod NumberExactly
