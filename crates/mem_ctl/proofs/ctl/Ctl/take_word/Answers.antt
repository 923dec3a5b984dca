use Rattle.std.proofs.Common.{◌≡◌, ℕ, ◌/◌, ◌%◌, ◌*◌, ◌+◌, Option, true, List, [], get_or, ap, ◌∙◌}
use Rattle.std.specs.Option.{unwrap_or}
use Rattle.pl_base.specs.declared.place.Place.{Place}
use Rattle.pl_base.specs.declared.place.Place.TheVariants.{Block, Node}
use Rattle.mem_geom.specs.Layout.{place_bytes}
use Rattle.mem_slots.specs.Slots.{is_mounted, root_of}
use Rattle.mem_tree.specs.declared.new_path.NewPath.{NewPath}
use Rattle.mem_tree.specs.Words.{word_path}
use Rattle.mem_tree.proofs.WordChanges.{same_paths}
use Rattle.mem_ctl.specs.Calls.{slot_root}
use Rattle.mem_ctl.specs.Mounting.{taken}
use Rattle.mem_ctl.proofs.ReadLemmas.{root_there}
use Rattle.mem_ctl.proofs.SlotLemmas.{is_some-root_of}
use Rattle.mem_ctl.proofs.ctl.Ctl.take_word.Goals as goal

pub returns-clause-parts : goal.returns-clause-parts
returns-clause-parts g c =
    let i = c.self.inside in
    let page : ℕ = c.args.page in
    let zone : ℕ = c.args.page / 64 in
    let mounted : is_mounted i.slots.mounted zone ≡ true = ap (λ v. is_mounted v.0.mounted zone) c.self.view_is ∙ c.requires.mounted in
    let root : c.unwrap_or-root.result ≡ unwrap_or (root_of i.slots.mounted zone) [] =
    c.unwrap_or-root.ensures ∙ ap (λ (o : Option (List ℕ)). unwrap_or o _) c.find.ensures ∙ root_there (root_of i.slots.mounted zone) _ [] (is_some-root_of i.slots.mounted zone ∙ mounted) in
    let places = c.word_places-places.ensures in
    let at = λ (k : ℕ) (ps : List Place). place_bytes i.zones i.off_chip (get_or ps k (Block 0 0)) in
    let level4 : c.read_place.new.into ≡ place_bytes i.zones i.off_chip (Node 4 zone 0) = c.read_place.ensures ∙ ap (at 0) places in
    let level3 : c.read_place-2.new.into ≡ place_bytes i.zones i.off_chip (Node 3 zone (page % 64 / 8)) = c.read_place-2.ensures ∙ ap (at 1) places in
    let level2 : c.read_place-3.new.into ≡ place_bytes i.zones i.off_chip (Node 2 zone (page % 64)) = c.read_place-3.ensures ∙ ap (at 2) places in
    let level1 : c.read_place-4.new.into ≡ place_bytes i.zones i.off_chip (Node 1 zone (8 * (page % 64) + c.args.block / 8)) = c.read_place-4.ensures ∙ ap (at 3) places in
    let block : c.read_place-5.new.into ≡ place_bytes i.zones i.off_chip (Block page c.args.block) = c.read_place-5.ensures ∙ ap (at 4) places in
    let there : NewPath = word_path (unwrap_or (root_of i.slots.mounted zone) []) (place_bytes i.zones i.off_chip) page c.args.block in
    same_paths (record {
      block = c.read_place-5.new.into;
      level1 = c.read_place-4.new.into;
      level2 = c.read_place-3.new.into;
      level3 = c.read_place-2.new.into;
      level4 = c.read_place.new.into;
      root = c.unwrap_or-root.result;
    }) there block level1 level2 level3 level4 root
    ∙ ap (λ v. word_path (slot_root v.0 zone) (taken v.0) page c.args.block) c.self.view_is
