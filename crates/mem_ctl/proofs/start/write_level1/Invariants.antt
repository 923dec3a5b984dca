use Rattle.std.proofs.Common.{◌≡◌, ◌-◌, length, take}
use Rattle.std.specs.List.{concat}
use Rattle.pl_base.specs.Bytes.{with_bytes}
use Rattle.pl_digest.specs.Trees.{page_roots}
use Rattle.mem_ctl.specs.Start.{level1_nodes, level2_nodes}
use Rattle.mem_ctl.specs.Writes.{zone_pages}
use Rattle.mem_ctl.proofs.start.write_level1.Given as goal

abbrev pub invariant-loop-k : goal.invariant-loop-k
invariant-loop-k g l = record {
  bytes : l.memory ≡ with_bytes l.initial.memory (l.start - 0x80000000) (level1_nodes g.D.Digester.digest_of (take l.k (zone_pages l.initial.memory l.zone)));
  size : length l.memory ≡ length l.initial.memory;
  level2 : l.level2 ≡ with_bytes l.initial.level2 0 (level2_nodes g.D.Digester.digest_of (take l.k (zone_pages l.initial.memory l.zone)));
  level2_size : length l.level2 ≡ 16384;
  roots : l.roots ≡ with_bytes l.initial.roots 0 (concat (page_roots g.D.Digester.digest_of (take l.k (zone_pages l.initial.memory l.zone))));
  roots_size : length l.roots ≡ 2048;
}
