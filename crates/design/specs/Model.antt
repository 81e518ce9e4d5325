-- The records that an accepted design owns. Assumes nothing.
use Rattle.std.specs.Prelude.{vec_items}
use Rattle.shape.specs.Shape.{Design}
use Rattle.design.specs.declared.owned.Records.{Records}

abbrev pub owned : Records → Design
owned r =
    record {
      head = r.head;
      ports = vec_items r.ports;
      registers = vec_items r.registers;
      states = vec_items r.states;
      expressions = vec_items r.expressions;
      commands = vec_items r.commands;
    }
