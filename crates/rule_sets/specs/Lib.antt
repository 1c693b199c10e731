pub mod RuleMask
