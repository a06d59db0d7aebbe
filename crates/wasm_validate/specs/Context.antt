-- What the instructions of a function may name, as the code keeps it.
use Rattle.wasm_ast.specs.Typing as typing
use Rattle.wasm_validate.specs.declared.context.Context.{Context}

abbrev pub context : Context → typing.Context
context c = record {
  types = c.types.now;
  functions = c.functions.now;
  tables = c.tables;
  memories = c.memories;
  globals = c.globals.now;
  params = c.params.now;
  locals = c.locals.now;
  result = c.result;
}
