use Rattle.std.proofs.Common.{◌≡◌, ℕ, ◌/◌, ◌%◌, List, map, get_or, ap, ◌∙◌, sym, subst}
use Rattle.pl_base.specs.declared.place.Place.{Place}
use Rattle.pl_base.specs.declared.place.Place.TheVariants.{Block, Node}
use Rattle.pl_digest.specs.Nodes.{with_entry}
use Rattle.mem_geom.specs.Layout.{place_bytes}
use Rattle.mem_slots.specs.Slots.{SlotList, rooted_slot}
use Rattle.mem_ctl.specs.Calls.{with_page_at}
use Rattle.mem_ctl.specs.Data.{CtlData, ctl_data}
use Rattle.mem_ctl.specs.Mounting.{taken}
use Rattle.mem_ctl.specs.Pages.{page_written}
use Rattle.mem_ctl.specs.TreesHold.{IsKept}
use Rattle.mem_ctl.proofs.PageCalls.{replaced-is}
use Rattle.mem_ctl.proofs.ctl.Ctl.replace.Given.{Over}
use Rattle.mem_ctl.proofs.ctl.Ctl.replace.Goals as goal

-- the fields as the code leaves them are those of the definition
is_replaced : (g : Over) (c : goal.After-set g) → let i = c.self.inside in
    ctl_data i.zones c.set.new.self.limit c.write_page.new.memory c.write_page-2.new.memory c.set.new.self.mounted i.root
    ≡ with_page_at g.D.Digester.digest_of c.args.page c.args.bytes.now (ctl_data i.zones i.slots.limit i.off_chip i.mirror i.slots.mounted i.root)
is_replaced g c =
    let d = g.D.Digester.digest_of in
    let i = c.self.inside in
    let page : ℕ = c.args.page in
    let bytes : List ℕ = c.args.bytes.now in
    let z : ℕ = c.args.page / 64 in
    let x : CtlData = ctl_data i.zones i.slots.limit i.off_chip i.mirror i.slots.mounted i.root in
    let l1 : List ℕ = c.page_nodes.new.level1 in
    let l2 : List ℕ = c.page_nodes.new.level2 in
    let l3 : List ℕ = c.set_entry.new.node in
    let l4 : List ℕ = c.set_entry-2.new.node in
    let at = λ (k : ℕ) (ps : List Place). place_bytes i.zones i.off_chip (get_or ps k (Block 0 0)) in
    let e3 : l3 ≡ with_entry (page % 64 % 8) (d l2) (taken x (Node 3 z (page % 64 / 8))) =
    c.set_entry.ensures ∙ ap (λ (q : List ℕ). with_entry (page % 64 % 8) q c.read_place.new.into) c.digest.ensures
    ∙ ap (with_entry (page % 64 % 8) (d l2)) (c.read_place.ensures ∙ ap (at 1) c.replaced_places-places.ensures) in
    let e4 : l4 ≡ with_entry (page % 64 / 8) (d l3) (taken x (Node 4 z 0)) =
    c.set_entry-2.ensures ∙ ap (λ (q : List ℕ). with_entry (page % 64 / 8) q c.read_place-2.new.into) c.digest-2.ensures
    ∙ ap (with_entry (page % 64 / 8) (d l3)) (c.read_place-2.ensures ∙ ap (at 0) c.replaced_places-places.ensures) in
    let changed = replaced-is d x page bytes l1 l2 l3 l4 c.page_nodes.ensures.level1 c.page_nodes.ensures.level2 e3 e4 in
    let p1 : List ℕ = page_written i.zones page bytes l1 l2 l3 l4 i.off_chip in
    let p2 : List ℕ = page_written i.zones page bytes l1 l2 l3 l4 i.mirror in
    ap (λ (m : List ℕ). ctl_data i.zones c.set.new.self.limit m c.write_page-2.new.memory c.set.new.self.mounted i.root) c.write_page.ensures.bytes
    ∙ ap (λ (m : List ℕ). ctl_data i.zones c.set.new.self.limit p1 m c.set.new.self.mounted i.root) c.write_page-2.ensures.bytes
    ∙ ap (λ (v : SlotList). ctl_data i.zones v.limit p1 p2 v.mounted i.root) c.set.ensures
    ∙ ap (λ (r : List ℕ). ctl_data i.zones i.slots.limit p1 p2 (map (rooted_slot z r) i.slots.mounted) i.root) c.digest-3.ensures ∙ sym changed

pub invariant_of-self : goal.invariant_of-self
invariant_of-self g c =
    let d = g.D.Digester.digest_of in
    subst (IsKept d) (sym (is_replaced g c)) (subst (λ v. IsKept d (with_page_at d c.args.page c.args.bytes.now v.0)) (sym c.self.view_is) c.requires.kept)

pub returns : goal.returns
returns g c = (λ j. (is_replaced g c j, c.self.inside.choice)) ∙ ap (λ v. (with_page_at g.D.Digester.digest_of c.args.page c.args.bytes.now v.0, v.1)) c.self.view_is
