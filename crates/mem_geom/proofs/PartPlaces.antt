-- Blocks and level-1 nodes as parts of one list.
use Rattle.std.proofs.Common.{◌≡◌, ℕ, ◌+◌, ◌-◌, ◌*◌, ◌/◌, ◌%◌, ap, ◌∙◌, sym, arith}
use Rattle.pl_base.specs.declared.place.Place.TheVariants.{Node}
use Rattle.pl_base.specs.Bytes.{bytes_at}
use Rattle.mem_geom.specs.Layout.{place_start}
use Rattle.mem_geom.specs.Laws.{PartsArePlaces}
use Rattle.mem_geom.proofs.Parts.{bytes_at-bytes_at}

pub parts_are_places : PartsArePlaces
parts_are_places = record {
  blocks = λ zones page block memory below.
      let same : 0x80000000 + 4096 * page + 64 * block - 0x80000000 ≡ 4096 * page + 64 * block = omega arith in
      ap (λ (at : ℕ). bytes_at memory at 64) same ∙ sym (bytes_at-bytes_at memory (4096 * page) 4096 (64 * block) 64 (omega arith));
  level1 = λ zones page k memory below.
      let start : ℕ = place_start zones (Node 1 (page / 64) (8 * (page % 64))) - 0x80000000 in
      let same : place_start zones (Node 1 (page / 64) (8 * (page % 64) + k)) - 0x80000000 ≡ start + 256 * k = omega arith in
      ap (λ (at : ℕ). bytes_at memory at 256) same ∙ sym (bytes_at-bytes_at memory start 2048 (256 * k) 256 (omega arith));
}
