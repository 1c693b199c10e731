-- A call's reply: a refusal or an answer, each of whatever kind.
pub data Reply (R A : Type 0) : Type 0 where
  refused : R → Reply R A
  answered : A → Reply R A
