-- Laws for the loops that tell each event which others wait for it.
use Prim.Native.Nat.{ℕ, ◌^◌, ◌<◌}
use mathlib.Core.Path.{◌≡◌, refl, sym, ap, ap₂, subst, ◌∙◌}
use mathlib.Core.Bool.{Bool, true, false, cond, xor}
use mathlib.Core.List.{List}
use native.Mathlib.Omega.{arith}
use lib.Dec.{eqb}
use lib.ListN.{length, get_or, set, replicate, length-set, get_or-replicate}
use lib.Seq.{get_or-set_same, get_or-set_other}
use lib.Bits.{bit_or, or_zero_r}
use borrow.Author.Tests.{eqb-true, eqb-false}
use Rattle.lists.proofs.BoolLaws.{xor-false}
use Rattle.masks.specs.Bit.{bit}
use Rattle.masks.specs.Ones.{Taken}
use Rattle.masks.proofs.BitLaws.{bit-zero}
use Rattle.masks.proofs.PowerLaws.{xor-pow, trailing-lowest}
use Rattle.successors.specs.CleanMasks.{slots, limit}
use Rattle.successors.specs.Waiting.{Added, Prepared}
use Rattle.successors.proofs.SiftLaws.{bit-flipped, Sifted, sift-start, sift-take, sift-skip, sift-end}

-- b goes to the entries of old that preds names; those of left are to come
pub record Adding (old : List ℕ) (preds b left : ℕ) (succ : List ℕ) : Type 0 where
  pub fits : left < 2 ^ slots
  pub long : length succ ≡ slots
  pub each : (e : ℕ) → e < slots →
      bit_or (get_or succ e 0) (cond (bit left e) b 0) ≡ bit_or (get_or old e 0) (cond (bit preds e) b 0)

module _ {old succ : List ℕ} {preds b left : ℕ} (adding : Adding old preds b left succ) where
  -- at the end none is
  pub add-end : {k : ℕ} → b ≡ 2 ^ k → left ≡ 0 → Added old preds k succ
  add-end q z = record {
    long = adding.long;
    each = λ e h.
        sym (or_zero_r (get_or succ e 0))
        ∙ ap (λ (t : Bool). bit_or (get_or succ e 0) (cond t b 0)) (sym (ap (λ (m : ℕ). bit m e) z ∙ bit-zero e))
        ∙ adding.each e h
        ∙ ap (λ (x : ℕ). bit_or (get_or old e 0) (cond (bit preds e) x 0)) q;
  }

  module _ {j after : ℕ} (taken : Taken left j after) where
    lowest-set : bit left j ≡ true
    lowest-set = rw taken.lowest (trailing-lowest slots left taken.some adding.fits).1

    -- the entry of the lowest that is to come has b
    pub add-more : Adding old preds b after (set succ j (bit_or (get_or succ j 0) b))
    unfolding xor
    add-more = record {
      fits = rw taken.rest (omega (arith, adding.fits, xor-pow left j lowest-set));
      long = length-set succ j _ ∙ adding.long;
      each = λ e h.
          ap (λ (t : Bool). bit_or (get_or next e 0) (cond t b 0)) (ap (λ (m : ℕ). bit m e) taken.rest ∙ bit-flipped left j (2 ^ j) e refl)
          ∙ go e h (eqb j e) refl;
    }
      where
        next : List ℕ
        next = set succ j (bit_or (get_or succ j 0) b)

        go : (e : ℕ) → e < slots → (t : Bool) → eqb j e ≡ t →
            bit_or (get_or next e 0) (cond (xor (bit left e) t) b 0) ≡ bit_or (get_or old e 0) (cond (bit preds e) b 0)
        go e h true z =
            let i : j ≡ e = eqb-true j e z in
            let on : bit left e ≡ true = ap (bit left) (sym i) ∙ lowest-set in
            ap₂ (λ (x : ℕ) (t : Bool). bit_or x (cond (xor t true) b 0))
            (ap (λ (x : ℕ). get_or next x 0) (sym i) ∙ get_or-set_same succ j _ 0 (omega (arith, adding.long, taken.fits))) on
            ∙ or_zero_r (bit_or (get_or succ j 0) b)
            ∙ ap₂ (λ (x : ℕ) (t : Bool). bit_or (get_or succ x 0) (cond t b 0)) i (sym on)
            ∙ adding.each e h
        go e h false z =
            ap₂ (λ (x : ℕ) (t : Bool). bit_or x (cond t b 0))
            (get_or-set_other succ j e _ 0 (λ s. eqb-false j e z (sym s))) (xor-false (bit left e))
            ∙ adding.each e h

-- succ has for each event those that wait for it, but for the events left
pub record Telling (preds : List ℕ) (mem left : ℕ) (succ : List ℕ) : Type 0 where
  pub long : length succ ≡ slots
  pub each : (e : ℕ) → e < slots → Sifted (λ k. bit (get_or preds k 0) e) mem left (get_or succ e 0)

-- at first all events are left
pub tell-start : {preds : List ℕ} {mem : ℕ} → mem < 2 ^ slots → Telling preds mem mem (replicate slots 0)
tell-start {preds} {mem} h = record {
  long = refl;
  each = λ e i.
      subst (Sifted (λ k. bit (get_or preds k 0) e) mem mem) (sym (get_or-replicate slots e 0 0 i))
      (sift-start (λ k. bit (get_or preds k 0) e) h);
}

module _ {preds succ : List ℕ} {mem left : ℕ} (telling : Telling preds mem left succ) where
  -- at the end none is
  pub tell-end : mem < 2 ^ limit → left ≡ 0 → Prepared preds succ mem
  tell-end h z = record { small = h; waiting = λ e i. sift-end (telling.each e i) z }

  module _ {j after : ℕ} (taken : Taken left j after) where
    -- the lowest event that is left is added to the masks of those that it waits for
    pub tell-more : {added : List ℕ} → Added succ (get_or preds j 0) j added → Telling preds mem after added
    tell-more {added} a = record {
      long = a.long;
      each = λ e i. subst (Sifted (λ k. bit (get_or preds k 0) e) mem after) (sym (a.each e i)) (go e i (bit (get_or preds j 0) e) refl);
    }
      where
        go : (e : ℕ) → e < slots → (t : Bool) → bit (get_or preds j 0) e ≡ t →
            Sifted (λ k. bit (get_or preds k 0) e) mem after (bit_or (get_or succ e 0) (cond t (2 ^ j) 0))
        go e i true z = sift-take (telling.each e i) taken refl z
        go e i false z =
            subst (Sifted (λ k. bit (get_or preds k 0) e) mem after) (sym (or_zero_r (get_or succ e 0)))
            (sift-skip (telling.each e i) taken z)
