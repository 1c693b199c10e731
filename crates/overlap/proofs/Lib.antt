pub mod OverlapLaws
