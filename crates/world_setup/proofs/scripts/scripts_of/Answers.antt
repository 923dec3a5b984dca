use Rattle.std.proofs.Common.{◌≡◌, ◌+◌, ◌≤◌, length, map, ap, sym, ◌∙◌, subst, arith, rules, sum_by, List, ℕ, Ok}
use Rattle.std.specs.List.{filter_map}
use Rattle.std.proofs.lemmas.List.{length-map}
use Rattle.toml.specs.View.{table_view}
use Rattle.world_lines.specs.Forms.{line_of}
use Rattle.world_setup.specs.Keys.{harts_in}
use Rattle.world_setup.specs.Scripts.{script_texts, attack_texts, forms_hold}
use Rattle.world_setup.proofs.ScriptReads.{all_lines_read, chosen_count}
use Rattle.world_setup.proofs.ScriptValidity.{few_lines}
use Rattle.world_setup.proofs.scripts.scripts_of.Goals as goal

pub count_lines-requires : goal.count_lines-requires
count_lines-requires c =
    let t = table_view c.args.table.now in
    let few : length c.in_ok-scripts.scripts.items + length c.in_ok-attacks.attacks.items ≤ 65536 = search rules in
    let is = c.as_slice-3.ensures ∙ c.in_ok-lines.ensures {u = tt} in
    let texts : length c.in_ok-scripts.scripts.items ≡ length (script_texts t) = sym (length-map c.in_ok-scripts.scripts.items (λ t. t.now)) ∙ ap length (c.in_ok-scripts.ensures {u = tt}) in
    subst (λ l. sum_by length l ≤ 65536) (sym is) (omega (arith, few_lines (harts_in t), texts))

pub forms_hold-requires-clause-lines : goal.forms_hold-requires-clause-lines
forms_hold-requires-clause-lines c =
    let t = table_view c.args.table.now in
    let is = c.as_slice-3.ensures ∙ c.in_ok-lines.ensures {u = tt} in
    c.count_lines.ensures ∙ ap (sum_by length) is ∙ chosen_count (harts_in t)
    ∙ ap (λ ts. length (filter_map line_of ts)) (sym (ap (map (λ x. x.now)) c.as_slice.ensures.value ∙ c.in_ok-scripts.ensures {u = tt}))

pub returns-clause-all : goal.returns-clause-all
returns-clause-all c =
    let t = table_view c.args.table.now in
    let scripts = ap (map (λ x. x.now)) c.as_slice.ensures.value ∙ c.in_ok-scripts.ensures {u = tt} in
    let attacks = ap (map (λ x. x.now)) c.as_slice-2.ensures.value ∙ c.in_ok-attacks.ensures {u = tt} in
    let held : forms_hold (script_texts t) (attack_texts t) ≡ Ok tt
    = subst (λ (ts : List (List ℕ)). forms_hold (script_texts t) ts ≡ Ok tt) attacks
    (subst (λ (ts : List (List ℕ)). forms_hold ts (map (λ x. x.now) c.as_slice-2.result.now) ≡ Ok tt) scripts (c.in_ok-forms_hold.ensures {u = tt})) in
    all_lines_read t _ held (c.in_ok-lines.ensures {u = tt}) (c.in_ok-attacker.ensures {u = tt})
