-- A setup whose rules hold is one.
use Rattle.std.proofs.Common.{◌≡◌, ℕ, ◌+◌, ◌≤◌, nat_le, le-leb, leb-true, true, List, [], length, sum_by, option_map, Ok, refl, subst, arith}
use Rattle.std.specs.List.{list_all}
use Rattle.std.proofs.lemmas.Bool.{and_parts}
use Rattle.toml.specs.Data.{Members}
use Rattle.pl_base.specs.declared.actor.Actor.{Actor}
use Rattle.mon_image.specs.declared.image.Image.{Image}
use Rattle.rv_pmp.specs.declared.rule.Rule.{Rule}
use Rattle.pl_history.specs.Rules.{names_known, all_wait, attacks_known, counts_of, IsSetup}
use Rattle.world_setup.specs.declared.numbers.Numbers.{Numbers}
use Rattle.world_setup.specs.declared.scripts.Scripts.{Scripts}
use Rattle.world_setup.specs.Numbers.{numbers_of}
use Rattle.world_setup.specs.Protection.{protection_of, order_at}
use Rattle.world_setup.specs.Images.{images_of}
use Rattle.world_setup.specs.Scripts.{scripts_of}
use Rattle.world_setup.specs.References.{first_unknown, first_wait, first_attack}
use Rattle.world_setup.specs.SetupOf.{AreFew, lines_known, parts_of}
use Rattle.world_setup.proofs.Chains.{none_held, none_last}
use Rattle.world_setup.proofs.ReferenceLemmas.{names_are_known, waits_are_known, attacks_are_known}
use Rattle.world_setup.proofs.Choices.{none_mapped}
use Rattle.world_setup.proofs.NumberValidity.{numbers_valid}
use Rattle.world_setup.proofs.ProtectionValidity.{protection_valid, order_valid}
use Rattle.world_setup.proofs.ImageValidity.{images_valid}
use Rattle.world_setup.proofs.ScriptValidity.{scripts_valid}

record AreKnown (n : Numbers) (images : ℕ) (s : Scripts) : Type 0 where
  names : list_all (list_all (names_known n.enclaves images)) s.lines ≡ true
  waits : all_wait (counts_of s.lines s.attacker) 0 s.lines ≡ true
  attacks : attacks_known n.zones (counts_of s.lines s.attacker) n.harts [] 0 s.attacker ≡ true

lines_valid : (n : Numbers) (images : ℕ) (s : Scripts) → lines_known n images s ≡ Ok tt → AreKnown n images s
unfolding lines_known
lines_valid n images s is =
    let counts = counts_of s.lines s.attacker in
    let r23 = none_held (first_unknown n.enclaves images s.lines) 23 _ tt is in
    let r24 = none_held (first_wait counts s.lines) 24 _ tt r23.1 in
    let last = none_last (option_map (λ at. sum_by length s.lines + at) (first_attack n.zones counts n.harts s.attacker)) 24 r24.1 in
    record {
      names = names_are_known n.enclaves images s.lines r23.0;
      waits = waits_are_known counts s.lines r24.0;
      attacks = attacks_are_known n.zones counts n.harts s.attacker (none_mapped (λ at. sum_by length s.lines + at) (first_attack n.zones counts n.harts s.attacker) last);
    }

pub few_parts : (t : Members) (n : Numbers) (images : List Image) (count : ℕ) (s : Scripts) → numbers_of t ≡ Ok n → images_of t ≡ Ok images → count ≡ length images → scripts_of n.harts t ≡ Ok s → AreFew count s
few_parts t n images count s numbers made counted scripts =
    let lies = (numbers_valid t n numbers).harts in
    let most : n.harts ≤ 8 = leb-true n.harts 8 (and_parts (nat_le 1 n.harts) (nat_le n.harts 8) lies).1 in
    let read = scripts_valid n.harts t s scripts in
    record {
      images = omega (arith, (images_valid t images made).few);
      harts = omega (arith, read.scripts);
      lines = read.few;
    }

pub valid_parts : (t : Members) (n : Numbers) (pmp : List (ℕ × Rule)) (order : List Actor) (images : List Image) (count : ℕ) (s : Scripts) → numbers_of t ≡ Ok n → protection_of t ≡ Ok pmp → order_at n.harts t ≡ Ok order
    → images_of t ≡ Ok images → count ≡ length images → scripts_of n.harts t ≡ Ok s → lines_known n count s ≡ Ok tt → IsSetup (parts_of n pmp order images s)
valid_parts t n pmp order images count s numbers entries turns made counted scripts lines =
    let of_numbers = numbers_valid t n numbers in
    let of_images = images_valid t images made in
    let of_scripts = scripts_valid n.harts t s scripts in
    let known = lines_valid n (length images) s (subst (λ x. lines_known n x s ≡ Ok tt) counted lines) in
    record {
      harts = of_numbers.harts;
      zones = of_numbers.zones;
      slots = of_numbers.slots;
      tables = of_numbers.tables;
      enclaves = of_numbers.enclaves;
      pool = of_numbers.pool;
      pmp = protection_valid t pmp entries;
      order = order_valid n.harts t order turns;
      images = rw (le-leb (length images) 64 of_images.few, of_images.valid) refl;
      scripts = of_scripts.scripts;
      count = le-leb (sum_by length s.lines + length s.attacker) 65536 of_scripts.few;
      forms = rw (of_scripts.lines, of_scripts.attacks) refl;
      names = known.names;
      waits = known.waits;
      attacks = known.attacks;
    }
