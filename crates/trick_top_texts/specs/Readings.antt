-- What the reader of a text answers is one thing, but for a want of memory.
use Rattle.std.specs.Prelude.{◌≡◌, ◌≢◌, ℕ, List, Ok, Err}
use Rattle.std.specs.Global.{Global}
use Rattle.std.specs.declared.vec.Vec.{Vec}
use Rattle.trick_input.specs.Answers.{IsInput}
use Rattle.trick_input.specs.declared.call.Call.{Call}
use Rattle.trick_input.specs.declared.fault.InputFault.{InputFault}
use Rattle.trick_input.specs.declared.fault.InputFault.TheVariants as reading
use Rattle.trick_lang.specs.SDefineOf.{sdefine_of}
use Rattle.trick_lang.specs.declared.syntax.definition.SDefine.{SDefine}
use Rattle.trick_sdef.specs.Answers.{IsSDefine}
use Rattle.trick_sdef.specs.declared.fault.SdefFault.{SdefFault}
use Rattle.trick_sdef.specs.declared.fault.SdefFault.TheVariants as sdef

-- An S_define has one tree, or one refusal.
pub record HasOneTree (s_define : List ℕ) : Type 0 where
  pub tree : (tree other : SDefine) → IsSDefine s_define (Ok tree) → IsSDefine s_define (Ok other)
      → sdefine_of tree ≡ sdefine_of other
  pub read : (tree : SDefine) (fault : SdefFault) → IsSDefine s_define (Ok tree) → IsSDefine s_define (Err fault)
      → fault ≡ sdef.OutOfMemory
  pub refused : (fault other : SdefFault) → fault ≢ sdef.OutOfMemory → other ≢ sdef.OutOfMemory
      → IsSDefine s_define (Err fault) → IsSDefine s_define (Err other) → fault ≡ other

-- An input has one list of lines, or one refusal.
pub record HasOneReading (input : List ℕ) : Type 0 where
  pub lines : (calls other : Vec Call Global) → IsInput input (Ok calls) → IsInput input (Ok other)
      → calls.items ≡ other.items
  pub read : (calls : Vec Call Global) (fault : InputFault) → IsInput input (Ok calls) → IsInput input (Err fault)
      → fault ≡ reading.OutOfMemory
  pub refused : (fault other : InputFault) → fault ≢ reading.OutOfMemory → other ≢ reading.OutOfMemory
      → IsInput input (Err fault) → IsInput input (Err other) → fault ≡ other
