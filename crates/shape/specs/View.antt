-- The design that lent tables hold. Assumes nothing.
use Rattle.shape.specs.Shape.{Design}
use Rattle.shape.specs.declared.tables.Tables.{Tables}

abbrev pub view : Tables → Design
view t =
    record {
      head = t.head;
      ports = t.ports.now;
      registers = t.registers.now;
      states = t.states.now;
      expressions = t.expressions.now;
      commands = t.commands.now;
    }
