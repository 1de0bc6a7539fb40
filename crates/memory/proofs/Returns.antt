-- Demand 1 for a call from two facts: each circumstance gives its refusal, and the result is an answer or some circumstance holds.
-- Assumes nothing.
use Prim.Native.Nat.{ℕ}
use mathlib.Core.Path.{◌≡◌, refl, sym, ap, subst, ◌∙◌}
use mathlib.Core.Logic.{◌⊎◌, inl, inr}
use mathlib.Core.Option.{Option, none, some, get_or}
use Rattle.std.specs.Prelude.{Result, Ok, Err, IsOk}
use Rattle.memory.specs.Refusals.{refused, Refuses, Returns}
use Rattle.memory.specs.declared.Refusal.{Refusal}
use Rattle.memory.specs.declared.Refused.{Refused}
use Rattle.memory.proofs.Bools.{true_false}

-- what a call that returns a Result tells: its error
abbrev pub error_of : {T : Type 0} → Result T Refused → Option Refused
error_of (Ok x) = none
error_of (Err e) = some e

pub ok_none : {T : Type 0} (r : Result T Refused) → IsOk r → error_of r ≡ none
ok_none (Ok x) h = refl
ok_none (Err e) h = absurd (true_false (sym h))

abbrev is_none : Option Refused → Type 0
is_none none = Unit
is_none (some x) = ⊥

-- a result tells at most one refusal (`told`), and an answer tells none
module _ {R : Type 0} {answers : R → Type 0} {says : Refusal → ℕ → R → Type 0} {when : Refusal → ℕ → Type 0} {left : Type 0} {result : R}
    (told : R → Option Refused) (Tells-none : answers result → told result ≡ none) (tells : (why : Refusal) (line : ℕ) → says why line result → told result ≡ some (refused why line)) where
  pub returns_by : answers result ⊎ Refuses when → ((why : Refusal) (line : ℕ) → when why line → says why line result) → (Refuses when → left)
      → Returns answers says when left result
  returns_by e f k =
      record {
        either = e;
        exactly = λ why line. (back why line e, f why line);
        apart = clash;
        keeps = k;
      }
    where
      clash : answers result → Refuses when → ⊥
      clash a r = subst is_none (sym (Tells-none a) ∙ tells r.why r.line (f r.why r.line r.circumstance)) tt

      back : (why : Refusal) (line : ℕ) → answers result ⊎ Refuses when → says why line result → when why line
      back why line (inl a) s = absurd (subst is_none (sym (Tells-none a) ∙ tells why line s) tt)
      back why line (inr r) s =
          let x = refused r.why r.line in
          let q = sym (tells r.why r.line (f r.why r.line r.circumstance)) ∙ tells why line s in
          subst (λ (y : Refused). when y.why y.line) (ap (λ (o : Option Refused). get_or o x) q) r.circumstance
