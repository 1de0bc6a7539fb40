-- `linear`: no step loses anything, so the machine's numbers are the integers of the definition.
use Rattle.std.proofs.Common.{◌≡◌, ◌+◌, ℕ, ℤ, pos, ◌+ℤ◌, ◌*ℤ◌, ap, ◌∙◌, arith, w16, w32, w64, to_z, of_z}
use lib.Signed.{shr_z}
use mir.ValLaws.{to_z-of_z}
use Rattle.memory.specs.Bytes.{word_at}
use Rattle.calibration.specs.Calibration.{signed_of, linear_of}
use Rattle.calibration.proofs.Widths.{Held, held, back, signed_mag}
use Rattle.calibration.proofs.linear.linear.Goals as goal

abbrev slope : goal.After-from-offset → ℕ
slope c = word_at c.args.lower.now c.args.i

abbrev offset : goal.After-from-offset → ℤ
offset c = signed_of (word_at c.args.lower.now (c.args.i + 2))

slope_lem : (c : goal.After-from-offset) → to_z w64 (of_z w64 c.from-slope.result) ≡ pos (slope c)
slope_lem c =
    rw (c.from-slope.ensures ∙ ap pos c.word.ensures) (back w64 (pos (slope c)) (omega (arith, c.word.ensures, c.word.type_inv)))

offset_lem : (c : goal.After-from-offset) → to_z w64 (of_z w64 c.from-offset.result) ≡ offset c
unfolding signed_of
offset_lem c =
    let e = c.from-offset.ensures ∙ back w16 c.cast_signed.result c.cast_signed.type_inv in
    rw (e, back w64 c.cast_signed.result (omega (arith, c.cast_signed.type_inv))) (c.cast_signed.ensures ∙ ap (to_z w16) c.word-2.ensures)

fits : (c : goal.After-from-offset) → Held (slope c) c.args.raw (offset c)
fits c =
    held (slope c) c.args.raw (offset c) (omega (arith, c.word.ensures, c.word.type_inv)) c.requires.1
    (signed_mag _ (omega (arith, c.word-2.ensures, c.word-2.type_inv)))

total : (c : goal.After-from-offset)
    → to_z w64 (of_z w64 (shr_z (to_z w64 (of_z w64 (to_z w64 (of_z w64 c.from-slope.result) *ℤ to_z w64 (of_z w64 c.args.raw)))) 256)) +ℤ to_z w64 (of_z w64 c.from-offset.result)
    ≡ shr_z (pos (slope c) *ℤ c.args.raw) 256 +ℤ offset c
total c =
    rw (
      slope_lem c,
      offset_lem c,
      to_z-of_z w64 c.args.raw c.ranges.raw,
      to_z-of_z w64 (pos (slope c) *ℤ c.args.raw) (fits c).product,
      to_z-of_z w64 (shr_z (pos (slope c) *ℤ c.args.raw) 256) (fits c).quotient,
    )

pub overflow_add-result : goal.overflow_add-result
overflow_add-result c = rw (total c) (fits c).total

pub overflow_cast-result : goal.overflow_cast-result
overflow_cast-result c = rw (total c, to_z-of_z w64 _ (fits c).total) (fits c).value

pub returns : goal.returns
unfolding linear_of
returns c = rw (total c, to_z-of_z w64 _ (fits c).total) (to_z-of_z w32 _ (fits c).value)
