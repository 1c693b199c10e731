pub mod AroundLaws
