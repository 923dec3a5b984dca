use Rattle.std.proofs.Common.{◌≡◌, ℕ, List, get_or, Option, None, Some, true, slice_get, refl, ap, ◌∙◌, sym, subst}
use Rattle.std.proofs.lemmas.Option.{slice_get-get_or, slice_get_within}
use Rattle.std.specs.Option.{option_map_or}
use Rattle.mem_ctl.specs.Data.{with_off_chip}
use Rattle.pl_history.specs.declared.line.AttackLine.{AttackLine}
use Rattle.pl_history.specs.declared.setup.SetupParts.{SetupParts}
use Rattle.world_attack.specs.Attacks.{Exposed, exposed, attacked_by, attacked_line}
use Rattle.world_attack.specs.Lines.{is_attack}
use Rattle.world_attack.proofs.attack.attack_line.Goals as goal

-- a line that is an attack is there
line_there : (lines : List AttackLine) (at : ℕ) (line : AttackLine) (o : Option AttackLine) → slice_get lines at ≡ o → is_attack o ≡ true → line ≡ get_or lines at line → slice_get lines at ≡ Some line
line_there lines at line None is attack read = cc
line_there lines at line (Some x) is attack read = slice_get-get_or lines at line (slice_get_within lines at x is) ∙ ap Some (sym read)

module _ (setup parts : SetupParts) (at : ℕ) (lines : List AttackLine) (line : AttackLine) (same : parts ≡ setup) (list : lines ≡ parts.attacker) (attack : is_attack (slice_get setup.attacker at) ≡ true)
    (read : line ≡ get_or lines at line) where
  here : slice_get parts.attacker at ≡ Some line
  here =
      line_there parts.attacker at line (slice_get parts.attacker at) refl
      (subst (λ (s : SetupParts). is_attack (slice_get s.attacker at) ≡ true) (sym same) attack)
      (subst (λ (l : List AttackLine). line ≡ get_or l at line) list read)

  -- the line at a position is done
  attacked_line-at : (x : Exposed) → attacked_by parts at x line ≡ attacked_line setup at x
  attacked_line-at x = sym (ap (λ (s : SetupParts). attacked_line s at x) (sym same) ∙ ap (λ o. option_map_or (attacked_by parts at x) o x) here)

pub attack-requires-clause-rules : goal.attack-requires-clause-rules
attack-requires-clause-rules g c = rw c.parts-parts.ensures.parts c.parts-parts.ensures.rules

pub returns-clause-history : goal.returns-clause-history
returns-clause-history g c =
    c.attack.ensures.history
    ∙ ap (λ (x : Exposed). x.history)
    (attacked_line-at c.args.setup.now c.parts-parts.result.now c.args.at c.as_slice.result.now c.index-as_slice-at.result
    c.parts-parts.ensures.parts c.as_slice.ensures c.requires.line c.index-as_slice-at.is (exposed c.args.history.now c.args.ctl.now.0.off_chip))

pub returns-clause-ctl : goal.returns-clause-ctl
returns-clause-ctl g c =
    c.attack.ensures.ctl
    ∙ ap (λ (x : Exposed). (with_off_chip c.args.ctl.now.0 x.off_chip, c.args.ctl.now.1))
    (attacked_line-at c.args.setup.now c.parts-parts.result.now c.args.at c.as_slice.result.now c.index-as_slice-at.result
    c.parts-parts.ensures.parts c.as_slice.ensures c.requires.line c.index-as_slice-at.is (exposed c.args.history.now c.args.ctl.now.0.off_chip))
