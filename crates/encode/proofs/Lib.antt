pub mod PutLaws
pub mod LengthLaws
pub mod BegunLaws
