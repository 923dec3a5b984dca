use Rattle.std.proofs.Common.{◌≡◌, ℕ, ◌+◌, ◌*◌, ◌∙◌, List, arith}
use Rattle.std.proofs.lemmas.List.{get_or-replicate}
use Rattle.mem_ctl.specs.Writes.{zone_pages}
use Rattle.mem_ctl.proofs.StartNodes.{table-root, table-written}
use Rattle.mem_ctl.proofs.ZoneLemmas.{zone_pages-IsZone}
use Rattle.mem_ctl.proofs.start.write_trees.Goals as goal

pub write_zones-requires-clause-zero : goal.write_zones-requires-clause-zero
write_zones-requires-clause-zero g c = λ k d h. get_or-replicate 2048 k 0 d h

pub returns-clause-bytes : goal.returns-clause-bytes
returns-clause-bytes g c =
    let memory : List ℕ = c.args.memory.now in
    let far : 411904 * c.args.zones ≡ 262144 * c.args.zones + 149760 * c.args.zones = omega arith in
    c.write_table.ensures.bytes
    ∙ table-written g.D.Digester.digest_of g.met.D.Digester.digest_length c.args.zones c.requires.few (λ zone. zone_pages memory zone) (λ zone below. zone_pages-IsZone memory zone c.args.zones below c.requires.size)
    memory c.write_zones.new.memory c.write_zones.new.entries (262144 * c.args.zones) (411904 * c.args.zones) far (omega arith) c.write_zones.ensures.entries c.write_zones.ensures.bytes

pub returns-clause-root : goal.returns-clause-root
returns-clause-root g c =
    let memory : List ℕ = c.args.memory.now in
    table-root g.D.Digester.digest_of g.met.D.Digester.digest_length c.args.zones c.requires.few (λ zone. zone_pages memory zone) (λ zone below. zone_pages-IsZone memory zone c.args.zones below c.requires.size)
    c.write_zones.new.entries c.write_table.result c.write_zones.ensures.entries c.write_table.ensures.is

pub write_table-requires-clause-size : goal.write_table-requires-clause-size
write_table-requires-clause-size g c = c.write_zones.ensures.size ∙ c.requires.size
