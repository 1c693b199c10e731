-- What the reply to a search call is, of whatever is searched: a refusal, or the answer over its listed prefixes.
use Prim.Native.Nat.{ℕ}
use mathlib.Core.Path.{◌≡◌, refl, sym, ap, ◌∙◌}
use mathlib.Core.Bool.{Bool, true, false, false≢true}
use mathlib.Core.List.Memᴰ
use mathlib.Core.List.{List, []}
use mathlib.Core.Logic.{◌⊎◌, inl, inr, ◌↔◌, ◌≢◌}
use Rattle.lists.specs.Lists.{◌∈◌}
use Rattle.lists.specs.Below.{some}
use Rattle.lists.specs.Reply.{Reply, refused, answered}
use Rattle.lists.specs.Ascending.{AllAbove, Ascending}
use Rattle.table.specs.Events.{memory}
use Rattle.decode.specs.Decoded.{decoded}
use Rattle.refusals.specs.Lines.{Refused, accepted, by_line, by_record, by_place, unless, reply_unless}
use Rattle.refusals.proofs.PassedLaws.{passed-both, entry-declined}
use Rattle.block.specs.Reading.{read_refusal}
use Rattle.block.proofs.ReadingLaws.{passed-table}
use Rattle.prefixes.specs.Listed.{after}
use Rattle.prefixes.specs.Answer.{Answer, answer}
use Rattle.prefixes.specs.Statements.{PrefixClosed, Honest}
use Rattle.model.specs.Witness.{witness_for}
use Rattle.model.specs.Prefixes.{clean, prefixes_by, search_by}
use Rattle.model.proofs.PrefixLaws.{clean-closed, passing-listed, passing-ascending, passing-nonempty, witness-clean, witness-nonempty}
use Rattle.pruning.proofs.UnprunedLaws.{unpruned-clean, unpruned-closed, witness-unpruned}
use Rattle.text.specs.Texts.{table_of_text, text_refusal}
use Rattle.bench.specs.Search.{Searched, of_block, of_block_pruned, of_text, lines_to, refusal_to, reply_to}
use Rattle.bench.specs.Demands.{refusal, is_witness, is_listed, prefixes, Call}
use Rattle.bench.proofs.EntryLaws.{good-read, passed-text}

-- what demand 3 uses of what is searched: the test is prefix-closed and passed by clean prefixes only; what isn't refused has a
-- memory event, and each of its witnesses passes
pub record Sound (q : Searched) : Type 0 where
  pub closed : PrefixClosed q.passes
  pub cleanly : (p : List ℕ) → q.passes p ≡ true → clean q.table p ≡ true
  pub witnesses : refusal q ≡ accepted → (p : List ℕ) → witness_for q.table q.outcome p ≡ true → q.passes p ≡ true
  pub peopled : refusal q ≡ accepted → some q.table.count (memory q.table) ≡ true

-- a table that reading accepts has a memory event
pub read-memory : (s : List ℕ) → read_refusal s ≡ accepted → some (decoded s).count (memory (decoded s)) ≡ true
read-memory s h = (passed-table s h).memory

-- a block
pub block-sound : (s : List ℕ) → Sound (of_block s)
unfolding refusal read_refusal
block-sound s = record {
  closed = clean-closed (decoded s);
  cleanly = λ p h. h;
  witnesses = λ h. witness-clean (decoded s) _;
  peopled = read-memory s;
}

-- by the second engine
pub pruned-sound : (s : List ℕ) → Sound (of_block_pruned s)
unfolding refusal read_refusal
pruned-sound s = record {
  closed = unpruned-closed (decoded s);
  cleanly = unpruned-clean (decoded s);
  witnesses = λ h. witness-unpruned (good-read s h);
  peopled = read-memory s;
}

-- a text
pub text-sound : (s : List ℕ) → Sound (of_text s)
unfolding refusal text_refusal
text-sound s = record {
  closed = clean-closed (table_of_text s);
  cleanly = λ p h. h;
  witnesses = λ h. witness-clean (table_of_text s) _;
  peopled = λ h. (passed-text s h).memory;
}

-- the reply to a call, by the definition
abbrev pub replied : Searched → List ℕ → Call → Reply Refused Answer
replied q start c = reply_to q start c.buffer c.allowance

module _ (q : Searched) (sound : Sound q) where
  -- listed are the nonempty prefixes that pass
  pub listed-are : (p : List ℕ) → (p ∈ prefixes q) ↔ ((p ≢ []) × (is_listed q p ≡ true))
  unfolding prefixes is_listed
  listed-are p = go (refusal q)
    where
      none : (p ∈ []) ↔ ((p ≢ []) × (false ≡ true))
      none = (λ m. absurd (Memᴰ.not-nil m), λ h. absurd (false≢true h.1))

      go : (r : Refused) → (p ∈ unless r (prefixes_by q.table q.passes) []) ↔ ((p ≢ []) × (unless r (q.passes p) false ≡ true))
      go accepted = passing-listed q.table q.passes sound.closed sound.cleanly p
      go (by_line n) = none
      go (by_record n k) = none
      go (by_place n p) = none

  -- every witness is listed
  pub witness-is-listed : (gmo : List ℕ) → is_witness q gmo ≡ true → gmo ∈ prefixes q
  unfolding prefixes is_witness
  witness-is-listed gmo = go (refusal q) refl
    where
      go : (r : Refused) → refusal q ≡ r → unless r (witness_for q.table q.outcome gmo) false ≡ true →
          gmo ∈ unless r (prefixes_by q.table q.passes) []
      go accepted e h =
          (passing-listed q.table q.passes sound.closed sound.cleanly gmo).1
          (witness-nonempty q.table q.outcome gmo (sound.peopled e) h, sound.witnesses e gmo h)
      go (by_line n) e h = absurd (false≢true h)
      go (by_record n k) e h = absurd (false≢true h)
      go (by_place n p) e h = absurd (false≢true h)

module _ (q : Searched) where
  -- in ascending order
  pub listed-ascending : Ascending (prefixes q)
  unfolding prefixes
  listed-ascending = go (refusal q)
    where
      go : (r : Refused) → Ascending (unless r (prefixes_by q.table q.passes) [])
      go accepted = passing-ascending q.table q.passes
      go (by_line n) = tt
      go (by_record n k) = tt
      go (by_place n p) = tt

  -- none is empty
  pub listed-nonempty : AllAbove [] (prefixes q)
  unfolding prefixes
  listed-nonempty = go (refusal q)
    where
      go : (r : Refused) → AllAbove [] (unless r (prefixes_by q.table q.passes) [])
      go accepted = passing-nonempty q.table q.passes
      go (by_line n) = tt
      go (by_record n k) = tt
      go (by_place n p) = tt

  -- where nothing refuses, a search is the answer over the witnesses and the listed prefixes
  search-over : (start : List ℕ) (b : ℕ) → refusal q ≡ accepted →
      search_by q.table q.passes q.outcome start b ≡ answer (is_witness q) (after start (prefixes q)) start b
  unfolding search_by is_witness prefixes
  search-over start b h =
      ap (λ (r : Refused). answer (λ p. unless r (witness_for q.table q.outcome p) false) (after start (unless r (prefixes_by q.table q.passes) [])) start b)
      (sym h)

  -- every reply is a refusal, or that answer
  pub honest : Honest (is_witness q) (prefixes q) (replied q)
  unfolding reply_to refusal_to lines_to refusal
  honest start c = go (refusal_to q start c.buffer c.allowance) refl
    where
      a : Answer
      a = search_by q.table q.passes q.outcome start c.allowance

      go : (r : Refused) → refusal_to q start c.buffer c.allowance ≡ r →
          ((x : Refused) × (reply_unless r a ≡ refused x))
          ⊎ ((b : ℕ) × (reply_unless r a ≡ answered (answer (is_witness q) (after start (prefixes q)) start b)))
      go accepted h =
          inr (c.allowance, ap answered (search-over start c.allowance (passed-both q.table.count q.lines _ h).0))
      go (by_line n) h = inl (by_line n, refl)
      go (by_record n k) h = inl (by_record n k, refl)
      go (by_place n p) h = inl (by_place n p, refl)

  -- what reading declines: every call is refused
  pub declined : refusal q ≢ accepted → (start : List ℕ) (c : Call) → replied q start c ≡ refused (refusal q)
  unfolding reply_to refusal_to lines_to refusal
  declined h start c = sym (entry-declined q.table.count q.lines _ _ (refusal q) refl h)
