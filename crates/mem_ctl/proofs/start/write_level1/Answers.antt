use Rattle.std.proofs.Common.{◌≡◌, ℕ, ◌+◌, ◌-◌, ◌*◌, ◌<◌, ◌∙◌, List, [], length, take, arith, refl, ap}
use Rattle.std.proofs.lemmas.List.{take_all}
use Rattle.std.specs.List.{concat}
use Rattle.pl_base.specs.Bytes.{with_bytes}
use Rattle.pl_digest.specs.Trees.{block_digests, page_root, page_roots, upper_node}
use Rattle.mem_geom.specs.Parts.{page_bytes}
use Rattle.mem_geom.proofs.Writes.{with_bytes-none}
use Rattle.mem_tree.specs.Trees.{nth}
use Rattle.mem_ctl.specs.Start.{level1_nodes, level2_nodes}
use Rattle.mem_ctl.specs.Writes.{zone_pages}
use Rattle.mem_ctl.proofs.StartNodes.{level1-page, level1-start, level1-step, level2-end, level2-start, level2-step, roots-end, roots-step}
use Rattle.mem_ctl.proofs.ZoneLemmas.{length-zone_pages}
use Rattle.mem_ctl.proofs.start.write_level1.Goals as goal

pub loop-k-init : goal.loop-k-init
loop-k-init g c =
    let d = g.D.Digester.digest_of in
    let law = g.met.D.Digester.digest_length in
    let pages : List (List ℕ) = zone_pages c.args.memory.now c.args.zone in
    record {
      bytes = level1-start d law pages c.args.memory.now (c.args.start - 0x80000000) (with_bytes-none c.args.memory.now (c.args.start - 0x80000000) [] refl);
      size = refl;
      level2 = level2-start d law pages c.args.level2.now 0 (with_bytes-none c.args.level2.now 0 [] refl);
      level2_size = c.told-level2;
      roots = with_bytes-none c.args.roots.now 0 [] refl;
      roots_size = c.told-roots;
    }

pub loop-k-preserved : goal.loop-k-preserved
loop-k-preserved g c =
    let d = g.D.Digester.digest_of in
    let law = g.met.D.Digester.digest_length in
    let i = c.loop-k.invariant in
    let memory : List ℕ = c.args.memory.now in
    let pages : List (List ℕ) = zone_pages c.args.memory.now c.args.zone in
    let count : length pages ≡ 64 = length-zone_pages memory c.args.zone in
    let k : ℕ = c.loop-k.k in
    let at : ℕ = c.args.start - 0x80000000 in
    let below : c.loop-k.k < 64 = omega arith in
    let from : c.args.start + 2048 * c.loop-k.k - 0x80000000 ≡ c.args.start - 0x80000000 + 2048 * c.loop-k.k = omega arith in
    let page : page_bytes c.loop-k.memory (64 * c.from.result + c.loop-k.k) ≡ nth (zone_pages c.args.memory.now c.args.zone) c.loop-k.k =
    ap (λ (z : ℕ). page_bytes c.loop-k.memory (64 * z + c.loop-k.k)) c.from.ensures ∙ level1-page d law memory c.loop-k.memory c.args.zone k at (omega arith) (omega arith) below i.bytes in
    let nodes = c.known_nodes-nodes.result in
    let are = c.known_nodes-nodes.ensures in
    record {
      bytes = level1-step d law pages count k below memory c.loop-k.memory c.write.new.self nodes.level1 at (c.args.start + 2048 * k - 0x80000000) from (omega arith) i.bytes
          (are.level1 ∙ ap (λ (p : List ℕ). concat (block_digests d p)) page) c.write.ensures.bytes;
      size = omega (arith, c.write.ensures.size, i.size);
      level2 = level2-step d law pages count k below c.args.level2.now c.loop-k.level2 c.put_bytes.new.all nodes.level2 c.told-level2 i.level2
          (are.level2 ∙ ap (λ (p : List ℕ). upper_node d (block_digests d p)) page) c.put_bytes.ensures.bytes;
      level2_size = omega (arith, c.put_bytes.ensures.size, i.level2_size);
      roots = roots-step d law pages count k below c.args.roots.now c.loop-k.roots c.put_bytes-in-loop-k.new.all nodes.root c.told-roots i.roots
          (are.root ∙ ap (page_root d) page) c.put_bytes-in-loop-k.ensures.bytes;
      roots_size = omega (arith, c.put_bytes-in-loop-k.ensures.size, i.roots_size);
    }

pub returns-clause-bytes : goal.returns-clause-bytes
returns-clause-bytes g c =
    let d = g.D.Digester.digest_of in
    let pages : List (List ℕ) = zone_pages c.args.memory.now c.args.zone in
    let all : take c.loop-k.k (zone_pages c.args.memory.now c.args.zone) ≡ zone_pages c.args.memory.now c.args.zone = take_all c.loop-k.k pages (omega (arith, length-zone_pages c.args.memory.now c.args.zone)) in
    c.loop-k.invariant.bytes ∙ ap (λ (ps : List (List ℕ)). with_bytes c.args.memory.now (c.args.start - 0x80000000) (level1_nodes d ps)) all

pub returns-clause-level2 : goal.returns-clause-level2
returns-clause-level2 g c =
    let end : c.loop-k.k ≡ 64 = omega arith in
    let pages : List (List ℕ) = zone_pages c.args.memory.now c.args.zone in
    level2-end g.D.Digester.digest_of g.met.D.Digester.digest_length pages c.args.level2.now c.loop-k.level2 (length-zone_pages c.args.memory.now c.args.zone) c.told-level2
    (c.loop-k.invariant.level2 ∙ ap (λ (k : ℕ). with_bytes c.args.level2.now 0 (level2_nodes g.D.Digester.digest_of (take k pages))) end)

pub returns-clause-roots : goal.returns-clause-roots
returns-clause-roots g c =
    let end : c.loop-k.k ≡ 64 = omega arith in
    let pages : List (List ℕ) = zone_pages c.args.memory.now c.args.zone in
    roots-end g.D.Digester.digest_of g.met.D.Digester.digest_length pages c.args.roots.now c.loop-k.roots (length-zone_pages c.args.memory.now c.args.zone) c.told-roots
    (c.loop-k.invariant.roots ∙ ap (λ (k : ℕ). with_bytes c.args.roots.now 0 (concat (page_roots g.D.Digester.digest_of (take k pages)))) end)
