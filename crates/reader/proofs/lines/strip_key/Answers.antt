-- In each arm the bytes are those of the key that is due.
use Rattle.std.proofs.Common.{◌≡◌, true, codes, rules}
use Rattle.reader.proofs.Keys.{stands, key_front}
use Rattle.reader.proofs.lines.strip_key.Goals as goal

pub returns-in-Levels-eq108 : goal.returns-in-Levels-eq108
returns-in-Levels-eq108 c =
    let h : stands (codes "levels=") 0 c.args.text.now ≡ true = search rules in
    key_front c.args.text.now c.in-Levels-eq108.is-0 h

pub returns-in-Rows-eq114 : goal.returns-in-Rows-eq114
returns-in-Rows-eq114 c =
    let h : stands (codes "row=") 0 c.args.text.now ≡ true = search rules in
    key_front c.args.text.now c.in-Rows-eq114.is-0 h

pub returns-in-Head-eq112 : goal.returns-in-Head-eq112
returns-in-Head-eq112 c =
    let h : stands (codes "ports=") 0 c.args.text.now ≡ true = search rules in
    key_front c.args.text.now c.in-Head-eq112.is-0 h

pub returns-in-Ports-eq119 : goal.returns-in-Ports-eq119
returns-in-Ports-eq119 c =
    let h : stands (codes "width=") 0 c.args.text.now ≡ true = search rules in
    key_front c.args.text.now c.in-Ports-eq119.is-0 h

pub returns-in-Registers-eq119 : goal.returns-in-Registers-eq119
returns-in-Registers-eq119 c =
    let h : stands (codes "width=") 0 c.args.text.now ≡ true = search rules in
    key_front c.args.text.now c.in-Registers-eq119.is-0 h

pub returns-in-States-eq112 : goal.returns-in-States-eq112
returns-in-States-eq112 c =
    let h : stands (codes "parent=") 0 c.args.text.now ≡ true = search rules in
    key_front c.args.text.now c.in-States-eq112.is-0 h

pub returns-in-Expressions-eq111 : goal.returns-in-Expressions-eq111
returns-in-Expressions-eq111 c =
    let h : stands (codes "op=") 0 c.args.text.now ≡ true = search rules in
    key_front c.args.text.now c.in-Expressions-eq111.is-0 h

pub returns-in-Commands-eq100 : goal.returns-in-Commands-eq100
returns-in-Commands-eq100 c =
    let h : stands (codes "do=") 0 c.args.text.now ≡ true = search rules in
    key_front c.args.text.now c.in-Commands-eq100.is-0 h

pub returns-in-Cells-eq118 : goal.returns-in-Cells-eq118
returns-in-Cells-eq118 c =
    let h : stands (codes "value=") 0 c.args.text.now ≡ true = search rules in
    key_front c.args.text.now c.in-Cells-eq118.is-0 h

pub returns-in-Inputs-eq105 : goal.returns-in-Inputs-eq105
returns-in-Inputs-eq105 c =
    let h : stands (codes "in=") 0 c.args.text.now ≡ true = search rules in
    key_front c.args.text.now c.in-Inputs-eq105.is-0 h
