use Rattle.std.proofs.Common.{◌≡◌, map, string_bytes}
use Rattle.std.specs.List.{list_any, list_all}
use Rattle.std.specs.Str.{bytes_eq}
use Rattle.toml.specs.View.{table_view}
use Rattle.world_setup.specs.TomlData.{has_only}
use Rattle.world_setup.proofs.toml_data.has_only.Given as goal

abbrev pub invariant-loop-key : goal.invariant-loop-key
invariant-loop-key l =
    has_only (map (λ n. n.now) l.names) (table_view l.table) ≡ list_all (λ k. list_any (bytes_eq k) (map (λ n. n.now) l.names)) (map string_bytes l.key-iterator)
