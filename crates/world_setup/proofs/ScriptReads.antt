-- Where rules 19 to 22 hold, each text is a line.
use Rattle.std.proofs.Common.{◌≡◌, ℕ, ◌+◌, true, List, [], ◌∷◌, length, map, is_some, option_map, None, Ok, sum_by, refl, sym, ap, ◌∙◌, arith, length-append}
use Rattle.std.specs.List.{list_all, flat_map, filter_map, position_from}
use Rattle.std.proofs.lemmas.List.Elements.{filter_map-append}
use Rattle.std.proofs.lemmas.Bool.{and_parts}
use Rattle.std.proofs.lemmas.List.Folds.{list_all-append}
use Rattle.std.proofs.lemmas.List.Sums.{sum_by-cons}
use Rattle.toml.specs.Data.{Data, Members}
use Rattle.world_lines.specs.Forms.{line_of, attack_line_of}
use Rattle.world_setup.specs.declared.scripts.Scripts.{Scripts}
use Rattle.world_setup.specs.Keys.{harts_in}
use Rattle.world_setup.specs.Scripts.{hart_texts, script_texts, attack_texts, has_no_form, has_no_attack_form, forms_hold, hart_lines, attack_script, IsRead}
use Rattle.world_setup.proofs.Chains.{none_held, none_last, all_from, none_from}
use Rattle.world_setup.proofs.Choices.{all_counted, all_where_counted, none_mapped}

lines_counted : (harts : List Data) → list_all (λ text. is_some (line_of text)) (flat_map hart_texts harts) ≡ true → sum_by length (map hart_lines harts) ≡ length (flat_map hart_texts harts)
lines_counted [] all = refl
lines_counted (hart ∷ harts) all =
    let both = and_parts (list_all (λ text. is_some (line_of text)) (hart_texts hart)) (list_all (λ text. is_some (line_of text)) (flat_map hart_texts harts))
    (sym (list_all-append (λ text. is_some (line_of text)) (hart_texts hart) (flat_map hart_texts harts)) ∙ all) in
    omega (
      arith,
      sum_by-cons length (hart_lines hart) (map hart_lines harts),
      length-append (hart_texts hart) (flat_map hart_texts harts),
      all_counted line_of (hart_texts hart) both.0,
      lines_counted harts both.1,
    )

record HaveForms (scripts attacks : List (List ℕ)) : Type 0 where
  lines : list_all (λ text. is_some (line_of text)) scripts ≡ true
  attack_lines : list_all (λ text. is_some (attack_line_of text)) attacks ≡ true

have_forms : (scripts attacks : List (List ℕ)) → forms_hold scripts attacks ≡ Ok tt → HaveForms scripts attacks
unfolding forms_hold
have_forms scripts attacks is =
    let r22 = none_held (position_from has_no_form 0 scripts) 22 _ tt is in
    let last = none_last (option_map (λ at. length scripts + at) (position_from has_no_attack_form 0 attacks)) 22 r22.1 in
    record {
      lines = all_from (λ text. is_some (line_of text)) 0 scripts r22.0;
      attack_lines = all_from (λ text. is_some (attack_line_of text)) 0 attacks (none_mapped (λ at. length scripts + at) (position_from has_no_attack_form 0 attacks) last);
    }

pub all_lines_read : (t : Members) (s : Scripts) → forms_hold (script_texts t) (attack_texts t) ≡ Ok tt → s.lines ≡ map hart_lines (harts_in t) → s.attacker ≡ attack_script t → IsRead t s
all_lines_read t s held lines attacks =
    let forms = have_forms (script_texts t) (attack_texts t) held in
    record {
      lines = ap (sum_by length) lines ∙ lines_counted (harts_in t) forms.lines;
      attacks = ap length attacks ∙ all_counted attack_line_of (attack_texts t) forms.attack_lines;
    }

-- as many lines as texts have a form
pub chosen_count : (harts : List Data) → sum_by length (map hart_lines harts) ≡ length (filter_map line_of (flat_map hart_texts harts))
chosen_count [] = refl
chosen_count (hart ∷ harts) =
    omega (
      arith,
      sum_by-cons length (hart_lines hart) (map hart_lines harts),
      chosen_count harts,
      ap length (filter_map-append line_of (hart_texts hart) (flat_map hart_texts harts)),
      length-append (filter_map line_of (hart_texts hart)) (filter_map line_of (flat_map hart_texts harts)),
    )

-- where as many have a form as there are, none fails
pub none_without_form : (texts : List (List ℕ)) → length (filter_map line_of texts) ≡ length texts → position_from has_no_form 0 texts ≡ None
none_without_form texts count = none_from (λ text. is_some (line_of text)) 0 texts (all_where_counted line_of texts count)

pub none_without_attack_form : (texts : List (List ℕ)) → length (filter_map attack_line_of texts) ≡ length texts → position_from has_no_attack_form 0 texts ≡ None
none_without_attack_form texts count = none_from (λ text. is_some (attack_line_of text)) 0 texts (all_where_counted attack_line_of texts count)
