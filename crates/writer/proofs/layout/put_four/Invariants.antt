use Rattle.std.proofs.Common.{◌≡◌, ◌+◌, ◌*◌, drop}
use Rattle.std.proofs.lemmas.List.Edits.{sets}
use Rattle.writer.specs.Layout.{bytes_of_all}
use Rattle.writer.proofs.layout.put_four.Given as goal

-- stored behind those that stand there, the slots from here on make up all four
abbrev pub invariant-loop-k : goal.invariant-loop-k
invariant-loop-k g l = record {
  same : l.x-items ≡ l.fn.slots;
  left : sets l.out (l.at + l.k * g.S.InBytes.SIZE) (bytes_of_all g.S.InBytes.in_bytes (drop l.k l.x-items))
      ≡ sets l.fn.out l.at (bytes_of_all g.S.InBytes.in_bytes l.fn.slots);
}
