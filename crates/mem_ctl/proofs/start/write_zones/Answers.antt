use Rattle.std.proofs.Common.{◌≡◌, ℕ, ◌+◌, ◌*◌, ◌<◌, ◌∙◌, List, [], map, take, arith, refl, sym, ap}
use Rattle.std.specs.List.{concat, range_with_len}
use Rattle.std.proofs.lemmas.List.{take_all}
use Rattle.std.proofs.lemmas.List.FromFn.{length-range_with_len}
use Rattle.pl_base.specs.Bytes.{with_bytes}
use Rattle.pl_digest.specs.Trees.{zone_root}
use Rattle.mem_geom.proofs.Writes.{with_bytes-none}
use Rattle.mem_tree.specs.Trees.{IsZone}
use Rattle.mem_ctl.specs.Start.{zone_nodes}
use Rattle.mem_ctl.specs.Writes.{zone_pages}
use Rattle.mem_ctl.proofs.RootLemmas.{zone_pages-before}
use Rattle.mem_ctl.proofs.StartNodes.{entries-end, length-zones, zone_roots-step, zones-step}
use Rattle.mem_ctl.proofs.ZoneLemmas.{zone_pages-IsZone}
use Rattle.mem_ctl.proofs.start.write_zones.Goals as goal

pub loop-zone-init : goal.loop-zone-init
loop-zone-init g c = record {
  bytes = sym (with_bytes-none c.args.memory.now (262144 * c.args.zones) [] refl);
  size = refl;
  entries = sym (with_bytes-none c.args.entries.now 0 [] refl);
  entries_size = c.told-entries;
}

pub loop-zone-preserved : goal.loop-zone-preserved
loop-zone-preserved g c =
    let d = g.D.Digester.digest_of in
    let law = g.met.D.Digester.digest_length in
    let i = c.loop-zone.invariant in
    let memory : List ℕ = c.args.memory.now in
    let zones : ℕ = c.args.zones in
    let z : ℕ = c.loop-zone.zone in
    let few = c.requires.few in
    let pages_of = λ (zone : ℕ). zone_pages c.args.memory.now zone in
    let are : (zone : ℕ) → zone < c.args.zones → IsZone (zone_pages c.args.memory.now zone) = λ zone below. zone_pages-IsZone memory zone zones below c.requires.size in
    let below : c.loop-zone.zone < c.args.zones = omega arith in
    let so_far : List ℕ = concat (map (λ zone. zone_nodes d (zone_pages memory zone)) (take z (range_with_len 0 zones))) in
    let same : zone_pages c.loop-zone.memory c.loop-zone.zone ≡ zone_pages c.args.memory.now c.loop-zone.zone =
    ap (λ (m : List ℕ). zone_pages m z) i.bytes
    ∙ zone_pages-before zones memory (262144 * zones) so_far (omega (arith, length-zones d law zones few pages_of are z (omega arith))) (omega arith) z below in
    record {
      bytes = zones-step d law zones few pages_of are z below memory c.loop-zone.memory c.write_zone-root.new.memory (zone_nodes d (zone_pages c.loop-zone.memory z)) (262144 * zones) (262144 * zones + 149760 * z) refl (omega arith)
          i.bytes (ap (zone_nodes d) same) c.write_zone-root.ensures.bytes;
      size = omega (arith, c.write_zone-root.ensures.size, i.size);
      entries = zone_roots-step d law zones few pages_of are z below c.args.entries.now c.loop-zone.entries c.put_bytes.new.all c.write_zone-root.result c.told-entries i.entries
          (c.write_zone-root.ensures.root ∙ ap (zone_root d) same)
          (c.put_bytes.ensures.bytes ∙ ap (λ (n : ℕ). with_bytes c.loop-zone.entries (32 * n) c.write_zone-root.result) c.from.ensures);
      entries_size = omega (arith, c.put_bytes.ensures.size, i.entries_size);
    }

pub returns-clause-bytes : goal.returns-clause-bytes
returns-clause-bytes g c =
    let memory : List ℕ = c.args.memory.now in
    let all : take c.loop-zone.zone (range_with_len 0 c.args.zones) ≡ range_with_len 0 c.args.zones = take_all c.loop-zone.zone (range_with_len 0 c.args.zones) (omega (arith, length-range_with_len 0 c.args.zones)) in
    c.loop-zone.invariant.bytes ∙ ap (λ (zs : List ℕ). with_bytes memory (262144 * c.args.zones) (concat (map (λ zone. zone_nodes g.D.Digester.digest_of (zone_pages memory zone)) zs))) all

pub returns-clause-entries : goal.returns-clause-entries
returns-clause-entries g c =
    let memory : List ℕ = c.args.memory.now in
    let end : c.loop-zone.zone ≡ c.args.zones = omega arith in
    entries-end g.D.Digester.digest_of g.met.D.Digester.digest_length c.args.zones c.requires.few (λ zone. zone_pages memory zone) (λ zone below. zone_pages-IsZone memory zone c.args.zones below c.requires.size)
    c.args.entries.now c.loop-zone.entries c.told-entries c.requires.zero
    (c.loop-zone.invariant.entries ∙ ap (λ (k : ℕ). with_bytes c.args.entries.now 0 (concat (map (λ zone. zone_root g.D.Digester.digest_of (zone_pages memory zone)) (take k (range_with_len 0 c.args.zones))))) end)
