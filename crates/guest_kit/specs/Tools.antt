-- The guest tools: the name of each, and its text.
use Rattle.std.specs.Prelude.{◌≡◌, ℕ, List, codes}
use Rattle.guest_kit.specs.declared.tool.Tool.{Tool}
use Rattle.guest_kit.specs.declared.tool.Tool.TheVariants.{Cat, Echo, Upper, Wc, YesN}
use Rattle.guest_kit.specs.declared.cat.TheConstants.{CAT}
use Rattle.guest_kit.specs.declared.echo.TheConstants.{ECHO}
use Rattle.guest_kit.specs.declared.upper.TheConstants.{UPPER}
use Rattle.guest_kit.specs.declared.wc.TheConstants.{WC}
use Rattle.guest_kit.specs.declared.yes_n.TheConstants.{YES_N}

abbrev pub name_of : Tool → List ℕ
name_of Cat = codes "cat"
name_of Echo = codes "echo"
name_of Upper = codes "upper"
name_of Wc = codes "wc"
name_of YesN = codes "yes_n"

abbrev pub text_of : Tool → List ℕ
text_of Cat = CAT.now
text_of Echo = ECHO.now
text_of Upper = UPPER.now
text_of Wc = WC.now
text_of YesN = YES_N.now

-- a text is that of the tool of a name; no two tools have one name
abbrev pub IsTextOf : List ℕ → List ℕ → Type 0
IsTextOf text name = (tool : Tool) × (name_of tool ≡ name) × (text ≡ text_of tool)
