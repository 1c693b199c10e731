pub mod SetsLaws
