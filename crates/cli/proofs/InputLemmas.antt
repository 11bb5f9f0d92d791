-- Words in which something is wrong name no file, and standard input for nothing.
-- Serves: open_input
use Rattle.std.proofs.Common.{◌≡◌, refl, inl, inr, List, [], ◌∷◌, Option, None, false}
use Rattle.clap.specs.Words.{HasKind, Kinds, Row, Text, kind_of}
use Rattle.clap.specs.declared.error.Error.{Error}
use Rattle.clap.specs.declared.error.kind.ErrorKind.TheVariants.{OutOfMemory}
use Rattle.cli.specs.Inputs.{file_in, shared_in}

none_named : (kinds : Kinds) (name : Option Text) → (kinds ≡ [] → ⊥) → file_in kinds name ≡ None
none_named [] name some = absurd (some refl)
none_named (kind ∷ kinds) name some = refl

none_shared : (kinds : Kinds) (rows : List Row) → (kinds ≡ [] → ⊥) → shared_in kinds rows ≡ false
none_shared [] rows some = absurd (some refl)
none_shared (kind ∷ kinds) rows some = refl

some_kind : (kinds : Kinds) (error : Error) → HasKind kinds error → (kind_of error ≡ OutOfMemory → ⊥) → kinds ≡ [] → ⊥
some_kind [] error (inl none) other e = other none
some_kind [] error (inr among) other e = among
some_kind (kind ∷ kinds) error has other e = cc e

pub file_of_wrong : (kinds : Kinds) (name : Option Text) (error : Error) → HasKind kinds error
    → (kind_of error ≡ OutOfMemory → ⊥) → file_in kinds name ≡ None
file_of_wrong kinds name error has other = none_named kinds name (some_kind kinds error has other)

pub shared_of_wrong : (kinds : Kinds) (rows : List Row) (error : Error) → HasKind kinds error
    → (kind_of error ≡ OutOfMemory → ⊥) → shared_in kinds rows ≡ false
shared_of_wrong kinds rows error has other = none_shared kinds rows (some_kind kinds error has other)
