use Rattle.std.proofs.Common.{◌≡◌, ℕ, ◌+◌, ◌-◌, ◌≤◌, List, [], ◌++◌, length, take, drop, Option, None, Some, Result, Ok, Err, sym, ap, ◌∙◌, subst, arith, append_assoc, length-append, length-drop}
use Rattle.std.proofs.Math.Seq.{take-append-add}
use Rattle.std.proofs.KnownBytes.{Appends-trans}
use Rattle.std.proofs.lemmas.List.{append-nil, take-append-drop, take_all}
use Rattle.std.specs.Io.{WritesAtMost}
use Rattle.std.specs.Io.KnownBytes.{Appends, Keeps, WriteAppends}
use Rattle.pl_io.specs.Bytes.{AppendsPrefix}
use Rattle.pl_io.proofs.edge.StdSinkSink.put.Goals as goal

-- what was written so far, and the rest
module _ (a b c : Option (List ℕ)) (front rest whole : List ℕ) (before : Appends a b front) (all : front ++ rest ≡ whole) where
  -- some more of the rest
  more : (n : ℕ) → n ≤ length rest → Appends b c (take n rest) → (x : List ℕ) × Appends a c x × (x ++ take (length rest - n) (drop n rest) ≡ whole)
  more n fits now = (
    front ++ take n rest,
    Appends-trans a b c front (take n rest) before now,
    append_assoc front (take n rest) (take (length rest - n) (drop n rest))
        ∙ ap (λ (r : List ℕ). front ++ (take n rest ++ r)) (take_all (length rest - n) (drop n rest) (omega (arith, length-drop n rest)))
        ∙ ap (λ (r : List ℕ). front ++ r) (take-append-drop n rest)
        ∙ all,
  )

  part_of : (n : ℕ) → n ≤ length rest → Appends b c (take n rest) → AppendsPrefix a c whole
  part_of n fits now =
      let some : take (length front + n) (front ++ rest) ≡ front ++ take n rest = take-append-add front rest n in
      subst (AppendsPrefix a c) all
      (length front + n, omega (arith, length-append front rest), subst (Appends a c) (sym some) (Appends-trans a b c front (take n rest) before now))

  nothing : Keeps b c → Appends b c []
  nothing kept = by_cases b c kept
    where
      by_cases : (x y : Option (List ℕ)) → Keeps x y → Appends x y []
      by_cases None y kept = kept
      by_cases (Some xs) None kept = kept
      by_cases (Some xs) (Some ys) kept = kept ∙ sym (append-nil xs)

  -- the writer stopped, after some of the rest or none of it
  stopped : {E : Type 0} (r : Result ℕ E) → WritesAtMost r rest → WriteAppends b c r rest → AppendsPrefix a c whole
  stopped (Ok n) fits now = part_of n (omega arith) now
  stopped (Err e) fits kept = part_of 0 (omega arith) (nothing kept)

pub loop-rest-preserved : goal.loop-rest-preserved
loop-rest-preserved g c =
    record {
      quiet = c.loop-rest.invariant.quiet;
      part =
          more _ _ _ c.loop-rest.invariant.part.0 c.loop-rest.rest.now _ c.loop-rest.invariant.part.1 c.loop-rest.invariant.part.2 c.in-Ok.count (omega (arith, c.in-Ok.ensures.bound)) c.in-Ok.ensures.bytes;
    }

pub returns-in_default-clause-part : goal.returns-in_default-clause-part
returns-in_default-clause-part g c =
    subst (λ v. AppendsPrefix v.1 (g.W.Write.contents c.write.new.self) c.args.piece.now) c.self.view_is
    (stopped _ _ _ c.loop-rest.invariant.part.0 c.loop-rest.rest.now _ c.loop-rest.invariant.part.1 c.loop-rest.invariant.part.2 c.write.result c.write.ensures.bound c.write.ensures.bytes)
