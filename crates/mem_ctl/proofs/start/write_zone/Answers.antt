use Rattle.std.proofs.Common.{◌≡◌, ℕ, ◌+◌, ◌-◌, ◌*◌, ◌∙◌, List, arith, ap}
use Rattle.pl_base.specs.Bytes.{with_bytes}
use Rattle.mem_ctl.specs.declared.start.Top.{Top}
use Rattle.mem_ctl.specs.Start.{level1_nodes}
use Rattle.mem_ctl.specs.Writes.{zone_pages}
use Rattle.mem_ctl.proofs.StartNodes.{zone-root, zone-written}
use Rattle.mem_ctl.proofs.ZoneLemmas.{zone_pages-IsZone}
use Rattle.mem_ctl.proofs.start.write_zone.Goals as goal

pub returns-clause-bytes : goal.returns-clause-bytes
returns-clause-bytes g c =
    let d = g.D.Digester.digest_of in
    let memory : List ℕ = c.args.memory.now in
    let zone : ℕ = c.args.zone in
    let at : ℕ = 262144 * c.args.zones + 149760 * c.args.zone in
    let pages : List (List ℕ) = zone_pages c.args.memory.now c.args.zone in
    let level2 : List ℕ = c.write_level1.new.level2 in
    let roots : List ℕ = c.write_level1.new.roots in
    let top : Top = c.known_top-top.result in
    let start = c.place_range-start.ensures.start in
    let p1 : c.place_range-start.result.0 - 0x80000000 ≡ 262144 * c.args.zones + 149760 * c.args.zone = omega arith in
    let p2 : c.place_range-start.result.0 + 131072 - 0x80000000 ≡ 262144 * c.args.zones + 149760 * c.args.zone + 131072 = omega arith in
    let p3 : c.place_range-start.result.0 + 147456 - 0x80000000 ≡ 262144 * c.args.zones + 149760 * c.args.zone + 147456 = omega arith in
    let p4 : c.place_range-start.result.0 + 149504 - 0x80000000 ≡ 262144 * c.args.zones + 149760 * c.args.zone + 149504 = omega arith in
    let m1 : c.write_level1.new.memory ≡ with_bytes memory at (level1_nodes d pages) = c.write_level1.ensures.bytes ∙ ap (λ (p : ℕ). with_bytes memory p (level1_nodes d pages)) p1 in
    let m2 : c.write.new.self ≡ with_bytes (with_bytes memory at (level1_nodes d pages)) (at + 131072) level2 =
    c.write.ensures.bytes ∙ ap (λ (p : ℕ). with_bytes c.write_level1.new.memory p level2) p2 ∙ ap (λ (m : List ℕ). with_bytes m (at + 131072) level2) m1 in
    let m3 : c.write-2.new.self ≡ with_bytes (with_bytes (with_bytes memory at (level1_nodes d pages)) (at + 131072) level2) (at + 147456) roots =
    c.write-2.ensures.bytes ∙ ap (λ (p : ℕ). with_bytes c.write.new.self p roots) p3 ∙ ap (λ (m : List ℕ). with_bytes m (at + 147456) roots) m2 in
    c.write-3.ensures.bytes ∙ ap (λ (p : ℕ). with_bytes c.write-2.new.self p top.node) p4 ∙ ap (λ (m : List ℕ). with_bytes m (at + 149504) top.node) m3
    ∙ zone-written d g.met.D.Digester.digest_length pages memory at level2 roots top (zone_pages-IsZone memory zone c.args.zones c.requires.zone c.requires.size) (omega arith)
    c.write_level1.ensures.level2 c.write_level1.ensures.roots c.known_top-top.ensures

pub returns-clause-root : goal.returns-clause-root
returns-clause-root g c =
    zone-root g.D.Digester.digest_of g.met.D.Digester.digest_length (zone_pages c.args.memory.now c.args.zone) c.write_level1.new.roots c.known_top-top.result c.write_level1.ensures.roots c.known_top-top.ensures
