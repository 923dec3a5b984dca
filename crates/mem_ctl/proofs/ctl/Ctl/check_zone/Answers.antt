use Rattle.std.proofs.Common.{◌≡◌, ℕ, ◌/◌, true, Option, List, [], ap, ◌∙◌}
use Rattle.std.specs.Option.{unwrap_or}
use Rattle.mem_geom.specs.Layout.{place_bytes}
use Rattle.mem_slots.specs.Slots.{is_mounted, root_of}
use Rattle.mem_tree.specs.Checks.{check}
use Rattle.mem_tree.specs.Paths.{path_of}
use Rattle.mem_ctl.specs.Calls.{zone_check}
use Rattle.mem_ctl.proofs.ReadLemmas.{root_there}
use Rattle.mem_ctl.proofs.SlotLemmas.{is_some-root_of}
use Rattle.mem_ctl.proofs.ctl.Ctl.check_zone.Goals as goal

pub returns : goal.returns
returns g c =
    let d = g.D.Digester.digest_of in
    let i = c.self.inside in
    let zone : ℕ = c.args.page / 64 in
    let mounted : is_mounted i.slots.mounted zone ≡ true = ap (λ v. is_mounted v.0.mounted zone) c.self.view_is ∙ c.requires.mounted in
    let root : c.unwrap_or-root.result ≡ unwrap_or (root_of i.slots.mounted zone) [] =
    c.unwrap_or-root.ensures ∙ ap (λ (o : Option (List ℕ)). unwrap_or o _) c.find.ensures ∙ root_there (root_of i.slots.mounted zone) _ [] (is_some-root_of i.slots.mounted zone ∙ mounted) in
    c.check_places.ensures ∙ ap (λ (r : List ℕ). check d (path_of r c.args.places.now (place_bytes i.zones i.off_chip)) (place_bytes i.zones i.mirror)) root
    ∙ ap (λ v. zone_check d v.0 zone c.args.places.now) c.self.view_is
